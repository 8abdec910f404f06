use Rattle.std.proofs.Common.{◌+◌, ◌++◌, ◌∷◌, [], Some, None, option_map, ap, sym, subst, ◌∙◌, ◌≡◌}
use Rattle.std.specs.Prelude.{IfOk}
use Rattle.abstract_value.specs.Constructors.{Below, listed, places, spread}
use Rattle.abstract_value.proofs.Places.{below_behind, below_more, none_behind, one_behind}
use Rattle.abstract_value.proofs.constructors.Constructors.with.Goals as goal

pub returns-in-Ok-clause-value : goal.returns-in-Ok-clause-value
returns-in-Ok-clause-value g c =
    let more = listed c.args.self.present ++ (c.args.self.count, c.in-Some.fields.value.items) ∷ [] in
    let made : listed c.in-Ok.present ≡ more = subst (λ r. IfOk r (λ p. listed p ≡ more)) c.in-Ok.is c.and_one.ensures in
    ap (λ l. places l 0 (c.args.self.count + 1)) made ∙ one_behind (listed c.args.self.present) c.args.self.count c.in-Some.fields.value.items c.requires
    ∙ ap (λ o. spread c.args.self ++ option_map (λ f. f.value.items) o ∷ []) (sym c.in-Some.is)

pub returns-in-Ok-clause-within : goal.returns-in-Ok-clause-within
returns-in-Ok-clause-within g c =
    let more = listed c.args.self.present ++ (c.args.self.count, c.in-Some.fields.value.items) ∷ [] in
    let made : listed c.in-Ok.present ≡ more = subst (λ r. IfOk r (λ p. listed p ≡ more)) c.in-Ok.is c.and_one.ensures in
    subst (λ l. Below (c.args.self.count + 1) l) (sym made) (below_behind (listed c.args.self.present) c.args.self.count c.in-Some.fields.value.items c.requires)

pub returns-in-None-clause-value : goal.returns-in-None-clause-value
returns-in-None-clause-value g c =
    none_behind (listed c.args.self.present) c.args.self.count c.requires ∙ ap (λ o. spread c.args.self ++ option_map (λ f. f.value.items) o ∷ []) (sym c.in-None.is)

pub returns-in-None-clause-within : goal.returns-in-None-clause-within
returns-in-None-clause-within g c = below_more (listed c.args.self.present) c.args.self.count c.requires
