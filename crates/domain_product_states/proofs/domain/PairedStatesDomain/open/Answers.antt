use Rattle.std.proofs.Common.{◌≡◌, map, max, sym, subst}
use Rattle.abstract_value_laws.specs.Abs.{parts}
use Rattle.domain_laws.specs.Values.{FieldsFit}
use Rattle.abstract_map.proofs.Whole.{if_ok}
use Rattle.abstract_value.specs.View.{abs}
use Rattle.domain_cells.specs.Views.{context_of, states_of}
use Rattle.domain_product_states.specs.Parts.{both_parts, pair_elements, pair_of_cells}
use Rattle.domain_product_states.specs.Views.{seen}
use Rattle.domain_product_states.proofs.domain.PairedStatesDomain.open.Goals as goal

pub opened_together-requires-clause-first : goal.opened_together-requires-clause-first
opened_together-requires-clause-first g c =
    let k = context_of c.args.self.now.states in
    let t = states_of c.args.self.now.states in
    (subst (λ x. (pair_elements g.A.Base.algebra g.B.Base.algebra k g.A.Base.CAP g.B.Base.CAP (max g.A.Base.CAP g.B.Base.CAP) t).fits (seen x)) c.in-Together.is c.requires.fits).0

pub opened_together-requires-clause-second : goal.opened_together-requires-clause-second
opened_together-requires-clause-second g c =
    let k = context_of c.args.self.now.states in
    let t = states_of c.args.self.now.states in
    (subst (λ x. (pair_elements g.A.Base.algebra g.B.Base.algebra k g.A.Base.CAP g.B.Base.CAP (max g.A.Base.CAP g.B.Base.CAP) t).fits (seen x)) c.in-Together.is c.requires.fits).1

pub returns-in-Together : goal.returns-in-Together
returns-in-Together g c =
    let k = context_of c.args.self.now.states in
    let t = states_of c.args.self.now.states in
    let opened = (pair_of_cells g.A.Base.algebra g.B.Base.algebra k g.A.Base.CAP g.B.Base.CAP (max g.A.Base.CAP g.B.Base.CAP) t).opened c.args.pc in
    record {
      value = if_ok (λ r. abs r ≡ opened (both_parts (parts (map abs c.in-Together.values.items)))) (λ r. abs r ≡ opened (seen c.args.x.now)) c.opened_together.result
          (λ r h. subst (λ x. abs r ≡ opened (seen x)) (sym c.in-Together.is) h) c.opened_together.ensures;
    }

pub opened_apart-requires-clause-first : goal.opened_apart-requires-clause-first
opened_apart-requires-clause-first g c =
    let k = context_of c.args.self.now.states in
    let t = states_of c.args.self.now.states in
    let fits = subst (λ x. (pair_elements g.A.Base.algebra g.B.Base.algebra k g.A.Base.CAP g.B.Base.CAP (max g.A.Base.CAP g.B.Base.CAP) t).fits (seen x)) c.in-Apart.is c.requires.fits in
    subst (λ l. FieldsFit g.A.Base.algebra k.0 g.A.Base.CAP t.fields (parts (map abs l))) (sym c.deref.ensures.value) fits.0

pub opened_apart-requires-clause-second : goal.opened_apart-requires-clause-second
opened_apart-requires-clause-second g c =
    let k = context_of c.args.self.now.states in
    let t = states_of c.args.self.now.states in
    let fits = subst (λ x. (pair_elements g.A.Base.algebra g.B.Base.algebra k g.A.Base.CAP g.B.Base.CAP (max g.A.Base.CAP g.B.Base.CAP) t).fits (seen x)) c.in-Apart.is c.requires.fits in
    subst (λ l. FieldsFit g.B.Base.algebra k.1 g.B.Base.CAP t.fields (parts (map abs l))) (sym c.deref-in-Apart.ensures.value) fits.1

pub returns-in-Apart : goal.returns-in-Apart
returns-in-Apart g c =
    let k = context_of c.args.self.now.states in
    let t = states_of c.args.self.now.states in
    let opened = (pair_of_cells g.A.Base.algebra g.B.Base.algebra k g.A.Base.CAP g.B.Base.CAP (max g.A.Base.CAP g.B.Base.CAP) t).opened c.args.pc in
    record {
      value = if_ok (λ r. abs r ≡ opened (parts (map abs c.deref.result.now), parts (map abs c.deref-in-Apart.result.now))) (λ r. abs r ≡ opened (seen c.args.x.now)) c.opened_apart.result
          (λ r h. subst (λ x. abs r ≡ opened (seen x)) (sym c.in-Apart.is)
          (subst (λ l. abs r ≡ opened (parts (map abs c.in-Apart.xs.items), parts (map abs l))) c.deref-in-Apart.ensures.value (subst (λ l. abs r ≡ opened (parts (map abs l), parts (map abs c.deref-in-Apart.result.now))) c.deref.ensures.value h))) c.opened_apart.ensures;
    }
