-- Looks follow each other.
use Rattle.std.specs.Prelude.{List, [], ◌∷◌, ◌++◌, Option}
use Rattle.std.proofs.Common.{refl, subst}
use Rattle.dots_server.specs.ServerValues.{ServerValue}
use Rattle.dots_run.specs.declared.filter_files.NamedFiles.{NamedFiles}
use Rattle.dots_run.specs.declared.figure_file.FigureFile.{FigureFile}
use Rattle.dots_run.specs.FilterFiles.{SawAll}
use Rattle.dots_run.specs.FigureFiles.{SawFigures}

pub saw_none : (files : NamedFiles) → SawAll files files []
saw_none files = refl

pub saw_then : (old mid new : NamedFiles) (seen more : List ServerValue) → SawAll old mid seen → SawAll mid new more → SawAll old new (seen ++ more)
saw_then old mid new [] more first later = subst (λ files. SawAll files new more) first later
saw_then old mid new (server ∷ seen) more first later = (first.0, first.1, saw_then first.0 mid new seen more first.2 later)

pub figures_none : (file : Option FigureFile) → SawFigures file file []
figures_none file = refl

pub figures_then : (old mid new : Option FigureFile) (seen more : List ServerValue) → SawFigures old mid seen → SawFigures mid new more → SawFigures old new (seen ++ more)
figures_then old mid new [] more first later = subst (λ file. SawFigures file new more) first later
figures_then old mid new (server ∷ seen) more first later = (first.0, first.1, figures_then first.0 mid new seen more first.2 later)
