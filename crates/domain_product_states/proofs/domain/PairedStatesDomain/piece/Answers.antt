use Rattle.std.proofs.Common.{◌≡◌, refl}
use Rattle.std.specs.Prelude.{IfSome, max, option_map}
use Rattle.abstract_map.proofs.Whole.{if_ok}
use Rattle.spec_ir.specs.Views.{specification}
use Rattle.fixpoint_cases.specs.Pieces.{pair_piece}
use Rattle.fixpoint_cases.specs.Same.{IsSamePiece}
use Rattle.domain_laws.specs.Values.{FieldsFit}
use Rattle.domain_laws.proofs.Pieces.{equal_pieces, seen_piece}
use Rattle.domain_cell_pieces.specs.Pieces.{cell_piece}
use Rattle.domain_cells.specs.Views.{context_of, states_of}
use Rattle.domain_product_states.specs.Instance.{pairs_of_cells_are_cut}
use Rattle.domain_product_states.specs.Parts.{pair_elements}
use Rattle.domain_product_states.specs.Views.{seen}
use Rattle.domain_product_states.proofs.Made.{first_fits, second_fits}
use Rattle.domain_product_states.proofs.domain.PairedStatesDomain.piece.Goals as goal

pub piece_of_both-requires : goal.piece_of_both-requires
piece_of_both-requires g c =
    let k = context_of c.args.self.now.states in
    let t = states_of c.args.self.now.states in
    let x = seen c.args.x.now in
    record {
      first = first_fits g.A.Base.algebra g.B.Base.algebra g.A.Base.CAP g.B.Base.CAP k t c.shared.result.now c.shared.ensures x.0 c.requires.fits.0;
      second = second_fits g.A.Base.algebra g.B.Base.algebra g.A.Base.CAP g.B.Base.CAP k t c.shared.result.now c.shared.ensures x.1 c.requires.fits.1;
    }

pub returns-clause-value : goal.returns-clause-value
returns-clause-value g c =
    let A = g.A.Base.algebra in
    let B = g.B.Base.algebra in
    let m = g.A.Base.CAP in
    let n = g.B.Base.CAP in
    let k = context_of c.args.self.now.states in
    let t = states_of c.args.self.now.states in
    let cut = c.args.cut in
    let piece = pair_piece (cell_piece A g.A.CutBase.cuts k.0 m t.fields) (cell_piece B g.B.CutBase.cuts k.1 n t.fields) (cut.place, cut.key) cut.low cut.high (seen c.args.x.now) in
    if_ok (λ r. option_map (λ b. seen b) r ≡ piece) (λ r. IsSamePiece (pair_elements A B k m n (max m n) t) (option_map (λ b. seen b) r) piece) c.piece_of_both.result
    (λ r e. equal_pieces (pair_elements A B k m n (max m n) t) (λ x. (refl, refl)) (option_map (λ b. seen b) r) piece e) (rw (c.shared.ensures, c.fields.ensures) at c.piece_of_both.ensures)

pub returns-clause-fits : goal.returns-clause-fits
returns-clause-fits g c =
    let A = g.A.Base.algebra in
    let B = g.B.Base.algebra in
    let m = g.A.Base.CAP in
    let n = g.B.Base.CAP in
    let k = context_of c.args.self.now.states in
    let t = states_of c.args.self.now.states in
    let cut = c.args.cut in
    let x = seen c.args.x.now in
    let piece = pair_piece (cell_piece A g.A.CutBase.cuts k.0 m t.fields) (cell_piece B g.B.CutBase.cuts k.1 n t.fields) (cut.place, cut.key) cut.low cut.high x in
    let laws = (pairs_of_cells_are_cut A B g.met.A.Base.laws g.met.B.Base.laws g.A.CutBase.cuts g.B.CutBase.cuts g.met.A.CutBase.cut_laws g.met.B.CutBase.cut_laws m n (max m n) k t (specification c.args._spec.now) c.requires.made).laws in
    if_ok (λ r. option_map (λ b. seen b) r ≡ piece) (λ r. IfSome r (λ b. FieldsFit A k.0 m t.fields (seen b).0 × FieldsFit B k.1 n t.fields (seen b).1)) c.piece_of_both.result
    (λ r e. seen_piece (λ b. seen b) (λ y. FieldsFit A k.0 m t.fields y.0 × FieldsFit B k.1 n t.fields y.1) r piece e (laws.piece_fits (cut.place, cut.key) cut.low cut.high x c.requires.fits)) (rw (c.shared.ensures, c.fields.ensures) at c.piece_of_both.ensures)
