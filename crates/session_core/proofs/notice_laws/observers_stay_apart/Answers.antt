use Rattle.session_core.proofs.Parting.{apart_entered, apart_filtered, apart_notified}
use Rattle.session_core.proofs.notice_laws.observers_stay_apart.Goals as goal

pub returns : goal.returns
returns c = record {
  registered = apart_entered;
  gone = λ peer token old. apart_filtered _ old;
  reset = λ peer id old. apart_filtered _ old;
  notified = apart_notified;
}
