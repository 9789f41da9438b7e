use Rattle.std.proofs.Common.{Ok, sym, ap, subst}
use Rattle.dots_host.specs.Causes.{Rose}
use Rattle.dots_script.specs.declared.checked.Checked.TheVariants as checked
use Rattle.dots_script.specs.Checks.{ChecksSettings, ChecksScript}
use Rattle.dots_run.specs.Reporting.{Finds}
use Rattle.dots_run.proofs.Endings.{checks, ends_well, ends_at_fault}
use Rattle.dots_run.proofs.reporting.report_topic.Goals as goal

pub returns-in-Settings-clause-sound : goal.returns-in-Settings-clause-sound
returns-in-Settings-clause-sound g c =
    let left = g.S.Source.left c.args.source.now in
    let unread = Rose (g.S.Source.faults c.args.source.now) (g.S.Source.faults c.check_settings.new.source) in
    let found = c.check_settings.result in
    let finds = checks ChecksSettings left unread found c.check_settings.ensures.checks c.check_settings.ensures.cause in
    ends_well c.report_found.result left _ _ unread _ c.args.topic (record { found = found; finds = subst (λ topic. Finds topic left unread found) (sym c.in-Settings.is) finds; reports = c.report_found.ensures })

pub returns-in-Settings-clause-at_fault : goal.returns-in-Settings-clause-at_fault
returns-in-Settings-clause-at_fault g c =
    let left = g.S.Source.left c.args.source.now in
    let unread = Rose (g.S.Source.faults c.args.source.now) (g.S.Source.faults c.check_settings.new.source) in
    let found = c.check_settings.result in
    let finds = checks ChecksSettings left unread found c.check_settings.ensures.checks c.check_settings.ensures.cause in
    ends_at_fault c.report_found.result left _ _ unread _ c.args.topic
    (record { found = found; finds = subst (λ topic. Finds topic left unread found) (sym c.in-Settings.is) finds; reports = c.report_found.ensures })

pub returns-in-Script-clause-sound : goal.returns-in-Script-clause-sound
returns-in-Script-clause-sound g c =
    let left = g.S.Source.left c.args.source.now in
    let unread = Rose (g.S.Source.faults c.args.source.now) (g.S.Source.faults c.check_script.new.source) in
    let found = c.check_script.result in
    let finds = checks ChecksScript left unread found c.check_script.ensures.checks c.check_script.ensures.cause in
    ends_well c.report_found-in-Script.result left _ _ unread _ c.args.topic
    (record { found = found; finds = subst (λ topic. Finds topic left unread found) (sym c.in-Script.is) finds; reports = c.report_found-in-Script.ensures })

pub returns-in-Script-clause-at_fault : goal.returns-in-Script-clause-at_fault
returns-in-Script-clause-at_fault g c =
    let left = g.S.Source.left c.args.source.now in
    let unread = Rose (g.S.Source.faults c.args.source.now) (g.S.Source.faults c.check_script.new.source) in
    let found = c.check_script.result in
    let finds = checks ChecksScript left unread found c.check_script.ensures.checks c.check_script.ensures.cause in
    ends_at_fault c.report_found-in-Script.result left _ _ unread _ c.args.topic
    (record { found = found; finds = subst (λ topic. Finds topic left unread found) (sym c.in-Script.is) finds; reports = c.report_found-in-Script.ensures })

pub returns-in-Usage-clause-reported : goal.returns-in-Usage-clause-reported
returns-in-Usage-clause-reported g c =
    let left = g.S.Source.left c.args.source.now in
    let unread = Rose (g.S.Source.faults c.args.source.now) (g.S.Source.faults c.args.source.now) in
    let found = Ok (checked.Good c.usage.result.now) in
    record { found = found; finds = subst (λ topic. Finds topic left unread found) (sym c.in-Usage.is) (ap (λ text. Ok (checked.Good text)) c.usage.ensures); reports = c.write_good.ensures }

pub returns-in-Version-clause-reported : goal.returns-in-Version-clause-reported
returns-in-Version-clause-reported g c =
    let left = g.S.Source.left c.args.source.now in
    let unread = Rose (g.S.Source.faults c.args.source.now) (g.S.Source.faults c.args.source.now) in
    let found = Ok (checked.Good c.version.result.now) in
    record { found = found; finds = subst (λ topic. Finds topic left unread found) (sym c.in-Version.is) (ap (λ text. Ok (checked.Good text)) c.version.ensures); reports = c.write_good-in-Version.ensures }

pub returns-in-Load-clause-reported : goal.returns-in-Load-clause-reported
returns-in-Load-clause-reported g c =
    let left = g.S.Source.left c.args.source.now in
    let unread = Rose (g.S.Source.faults c.args.source.now) (g.S.Source.faults c.args.source.now) in
    let (found, finds, reports) = c.report_load.ensures in
    record { found = found; finds = subst (λ topic. Finds topic left unread found) (sym c.in-Load.is) finds; reports = reports }

pub returns-in-Load-clause-sound : goal.returns-in-Load-clause-sound
returns-in-Load-clause-sound g c =
    let left = g.S.Source.left c.args.source.now in
    let unread = Rose (g.S.Source.faults c.args.source.now) (g.S.Source.faults c.args.source.now) in
    let (found, finds, reports) = c.report_load.ensures in
    ends_well c.report_load.result left _ _ unread _ c.args.topic (record { found = found; finds = subst (λ topic. Finds topic left unread found) (sym c.in-Load.is) finds; reports = reports })

pub returns-in-Load-clause-at_fault : goal.returns-in-Load-clause-at_fault
returns-in-Load-clause-at_fault g c =
    let left = g.S.Source.left c.args.source.now in
    let unread = Rose (g.S.Source.faults c.args.source.now) (g.S.Source.faults c.args.source.now) in
    let (found, finds, reports) = c.report_load.ensures in
    ends_at_fault c.report_load.result left _ _ unread _ c.args.topic (record { found = found; finds = subst (λ topic. Finds topic left unread found) (sym c.in-Load.is) finds; reports = reports })
