use Rattle.std.proofs.Common.{◌≡◌, ℕ, sym, subst}
use Rattle.support_modular_rows.specs.Multiples.{IsLeastMultiple, IsMultiple}
use Rattle.domain_affine_base.specs.Words.{Fits}
use Rattle.domain_affine_base.specs.declared.word.Word.TheVariants.{Const, Form}
use Rattle.domain_affine_element_laws.specs.Opened.{opened_cell}
use Rattle.domain_affine_element_laws.proofs.Opened.{one_is_opened, opens_to_words}
use Rattle.domain_affine_elements.proofs.opened.open_cell.Goals as goal

constant : (c : goal.In-Some) → Const c.in-Some.c ≡ opened_cell c.args.k c.args.x.now.rows c.args.cell
constant c =
    one_is_opened c.args.k c.args.x.now.rows c.args.cell (Const c.in-Some.c) c.requires.within
    (subst (λ k. IsLeastMultiple k c.args.x.now.rows c.args.cell c.in-Some.c) c.requires.cells c.in-Some.ensures.some)

form : (c : goal.In_ok-unit-in-None) → Form c.in_ok-unit-in-None.field-0 ≡ opened_cell c.args.k c.args.x.now.rows c.args.cell
form c =
    one_is_opened c.args.k c.args.x.now.rows c.args.cell (Form c.in_ok-unit-in-None.field-0) c.requires.within
    (c.in_ok-unit-in-None.ensures, subst (λ k. (d : ℕ) → IsMultiple k c.args.x.now.rows c.args.cell d → ⊥) c.requires.cells c.in-None.ensures.none)

pub returns-in-Some : goal.returns-in-Some
returns-in-Some c = record {
  value = constant c;
  fits = subst (Fits c.args.k 32) (sym (constant c)) (opens_to_words c.args.k c.args.x.now.rows c.args.cell c.requires.within);
}

pub returns-in_ok-unit-in-None : goal.returns-in_ok-unit-in-None
returns-in_ok-unit-in-None c = record {
  value = form c;
  fits = subst (Fits c.args.k 32) (sym (form c)) (opens_to_words c.args.k c.args.x.now.rows c.args.cell c.requires.within);
}
