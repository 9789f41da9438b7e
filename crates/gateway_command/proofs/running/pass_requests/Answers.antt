use Rattle.gateway_command.proofs.running.pass_requests.Goals as goal

pub returns-clause-runs : goal.returns-clause-runs
returns-clause-runs g c = λ left left_now faults faults_now. record {
  how = c.run_gateway-how.result;
  behaves = c.run_gateway-how.ensures.machine;
  failed = c.run_gateway-how.ensures.ended;
  opens = c.run_gateway-how.ensures.complete;
  reports_end = c.report_end.ensures.tells;
}
