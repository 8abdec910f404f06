-- What elements over two bases are as plain data.
use Rattle.std.specs.Prelude.{List, map, Vec}
use Rattle.std.specs.declared.alloc.Global.{Global}
use Rattle.abstract_value_laws.specs.Abs.{Parts, parts}
use Rattle.abstract_value.specs.View.{abs}
use Rattle.abstract_value.specs.declared.value.AbstractValue.{AbstractValue}
use Rattle.domain_product_states.specs.Parts.{both_parts}
use Rattle.domain_product_states.specs.declared.both.Both.{Both}
use Rattle.domain_product_states.specs.declared.both.Both.TheVariants.{Together, Apart}

-- values of the first base, and values of the second
abbrev pub apart : {X Y V W M N C D : Type 0} → List (AbstractValue X V M C) → List (AbstractValue Y W N D) → Parts V M × Parts W N
apart xs ys = (parts (map abs xs), parts (map abs ys))

-- the parts of both
abbrev pub seen : {X Y Z V W M N C D E : Type 0} → Both (Vec (AbstractValue Z (V × W) (M × N) E) Global) (Vec (AbstractValue X V M C) Global) (Vec (AbstractValue Y W N D) Global) → Parts V M × Parts W N
seen (Together zs) = both_parts (parts (map abs zs.items))
seen (Apart xs ys) = apart xs.items ys.items
