use Rattle.std.proofs.Common.{◌≡◌, IfOk, sym, subst}
use Rattle.spec_ir.specs.Views.{specification}
use Rattle.text_claims.specs.Views.{meant_of}
use Rattle.text_claims.proofs.Words.{many_terms, one_term}
use Rattle.text_claims.proofs.says.words_mean.Goals as goal

pub returns-in-len1 : goal.returns-in-len1
returns-in-len1 c =
    subst (λ z. IfOk c.sum_means-in-len1.result (λ m. meant_of m ≡ z)) (sym (one_term (specification c.args.spec.now) c.args.at c.args.first.now c.args.more.now c.in-len1.len_below)) c.sum_means-in-len1.ensures

pub returns-in-len3-up : goal.returns-in-len3-up
returns-in-len3-up c =
    subst (λ z. IfOk c.sum_means-in-len3-up.result (λ m. meant_of m ≡ z)) (sym (many_terms (specification c.args.spec.now) c.args.at c.args.first.now c.args.more.now c.in-len3-up.len_at_least)) c.sum_means-in-len3-up.ensures
