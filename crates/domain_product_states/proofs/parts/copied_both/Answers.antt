use Rattle.std.proofs.Common.{◌≡◌, map, ◌∙◌}
use Rattle.abstract_value_laws.specs.Abs.{parts}
use Rattle.abstract_map.proofs.Whole.{if_ok}
use Rattle.abstract_value.specs.View.{abs}
use Rattle.domain_product_states.specs.Parts.{both_parts}
use Rattle.domain_product_states.specs.Views.{seen}
use Rattle.domain_product_states.proofs.Seen.{apart_seen, together_seen}
use Rattle.domain_product_states.proofs.parts.copied_both.Goals as goal

pub returns-in-Together : goal.returns-in-Together
returns-in-Together g c =
    if_ok (λ r. seen r ≡ both_parts (parts (map abs c.deref.result.now))) (λ r. seen r ≡ seen c.args.x.now) c.copied_together.result
    (λ r h. h ∙ together_seen c.args.x.now c.in-Together.values c.deref.result.now c.in-Together.is c.deref.ensures.value) c.copied_together.ensures

pub returns-in-Apart : goal.returns-in-Apart
returns-in-Apart g c =
    if_ok (λ r. seen r ≡ (parts (map abs c.deref-in-Apart.result.now), parts (map abs c.deref-in-Apart-2.result.now))) (λ r. seen r ≡ seen c.args.x.now) c.copied_apart.result
    (λ r h. h ∙ apart_seen c.args.x.now c.in-Apart.xs c.in-Apart.ys c.deref-in-Apart.result.now c.deref-in-Apart-2.result.now c.in-Apart.is c.deref-in-Apart.ensures.value c.deref-in-Apart-2.ensures.value) c.copied_apart.ensures
