-- The settings of a generated run: four domains, each with a prefix of its own, and eight clients, two of each domain.
use Rattle.std.specs.Prelude.{ℕ, List, ◌++◌, codes}

unfoldable pub settings_text : List ℕ
settings_text =
    codes "domain d0\ndomain d1\ndomain d2\ndomain d3\n"
    ++ (codes "prefix d0 10.0.0.0/16\nprefix d1 10.1.0.0/16\nprefix d2 10.2.0.0/16\nprefix d3 10.3.0.0/16\n"
    ++ codes "client 0 d0\nclient 1 d1\nclient 2 d2\nclient 3 d3\nclient 4 d0\nclient 5 d1\nclient 6 d2\nclient 7 d3\n")
