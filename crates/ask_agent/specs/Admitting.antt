-- What one more line adds.
use Rattle.std.specs.Prelude.{[], ◌∷◌, ◌++◌, Some, None}
use Rattle.ask_agent.specs.declared.draft.Draft.{Draft}
use Rattle.ask_agent.specs.declared.line.Line.{Line}
use Rattle.ask_agent.specs.declared.line.Line.TheVariants as said

abbrev pub no_lines : Draft
no_lines = record { server = None; cuid = None; mid = None; number = None; asks = [] }

abbrev pub admitted : Draft → Line → Draft
admitted draft (said.Server peer) = record draft { server = Some peer }
admitted draft (said.Cuid name) = record draft { cuid = Some name }
admitted draft (said.Mid mid) = record draft { mid = Some mid }
admitted draft (said.Number number) = record draft { number = Some number }
admitted draft (said.At at ask) = record draft { asks = draft.asks ++ record { at = at; ask = ask } ∷ [] }
