use Rattle.dots_history.proofs.Bare.{bare_mitigations, bare_held, bare_rows, bare_lists, bare_mitigating, bare_fate}
use Rattle.dots_history.proofs.tables.messages_matter_to_repeats_alone.Goals as goal

pub returns : goal.returns
returns c = record { live = bare_mitigations; written = bare_held; rows = bare_rows; lists = bare_lists; mitigating = bare_mitigating; fates = bare_fate }
