use Rattle.std.proofs.Common.{[], ◌∷◌, ◌++◌, sym, ap, subst, ◌∙◌}
use Rattle.std.proofs.lemmas.List.{map-append}
use Rattle.dots_history.specs.declared.entry.Entry.{Entry}
use Rattle.dots_registry.specs.RegistryValues.{IsOf}
use Rattle.dots_registry.specs.Fitting.{fits_now}
use Rattle.dots_registry.specs.Gathering.{GatheringValue, AwaitsRows, domain_of}
use Rattle.dots_registry.proofs.gathering.Gathering.take.Goals as goal

pub returns-clause-gathers : goal.returns-clause-gathers
returns-clause-gathers c = λ settings before is_of gathers place fits.
    let same = ap (λ (g : GatheringValue). g.tables) c.self.view_is in
    let entry = c.into_parts-entry.ensures.entry ∙ c.in_ok-of.ensures.value in
    record {
      awaits = subst
          (λ (e : Entry). AwaitsRows (before ++ e ∷ []) c.write.new.self.tables)
          entry
          (c.write.ensures.awaits
          settings
          before
          (subst (IsOf settings) (sym same) is_of)
          (subst (AwaitsRows before) (sym same) gathers.awaits)
          place
          (ap (λ t. fits_now settings t before c.into_parts-entry.result.0) same ∙ ap (fits_now settings c.args.self.now.tables before) entry ∙ fits));
      domains = c.write.ensures.domains
          ∙ c.in_ok-push.ensures.items
          ∙ ap (λ domains. domains ++ c.args.entry.domain ∷ []) (ap (λ (g : GatheringValue). g.domains) c.self.view_is ∙ gathers.domains)
          ∙ sym (map-append domain_of before (c.args.entry ∷ []));
    }

pub returns-clause-settings : goal.returns-clause-settings
returns-clause-settings c = λ settings is_of.
    c.write.ensures.settings settings (subst (IsOf settings) (sym (ap (λ (g : GatheringValue). g.tables) c.self.view_is)) is_of)
