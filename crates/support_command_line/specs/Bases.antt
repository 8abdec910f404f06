-- The bases of abstract words that `--base` names.
use Rattle.std.specs.Prelude.{ℕ, Bool, true, false, List, [], ◌∷◌, Option, bytes_eq, codes, find}
use Rattle.support_command_line.specs.declared.bases.BaseName.{BaseName}
use Rattle.support_command_line.specs.declared.bases.BaseName.TheVariants as b

abbrev pub base_text : BaseName → List ℕ
base_text b.Const = codes "const"
base_text b.KSet = codes "kset"
base_text b.Interval = codes "interval"
base_text b.Affine = codes "affine"
base_text b.DefUse = codes "defuse"
base_text b.ConstInterval = codes "const+interval"
base_text b.KSetInterval = codes "kset+interval"
base_text b.KSetAffine = codes "kset+affine"
base_text b.KSetDefUse = codes "kset+defuse"
base_text b.IntervalAffine = codes "interval+affine"
base_text b.IntervalDefUse = codes "interval+defuse"
base_text b.AffineDefUse = codes "affine+defuse"
base_text b.Bits = codes "bits"
base_text b.KSetBits = codes "kset+bits"
base_text b.IntervalBits = codes "interval+bits"
base_text b.BitsDefUse = codes "bits+defuse"
base_text b.Strides = codes "strides"
base_text b.StridesAffine = codes "strides+affine"
base_text b.StridesDefUse = codes "strides+defuse"

abbrev pub all_bases : List BaseName
all_bases = b.Const ∷ b.KSet ∷ b.Interval ∷ b.Affine ∷ b.DefUse ∷ b.ConstInterval ∷ b.KSetInterval ∷ b.KSetAffine ∷ b.KSetDefUse
    ∷ b.IntervalAffine ∷ b.IntervalDefUse ∷ b.AffineDefUse ∷ b.Bits ∷ b.KSetBits ∷ b.IntervalBits ∷ b.BitsDefUse ∷ b.Strides ∷ b.StridesAffine
    ∷ b.StridesDefUse ∷ []

-- the base of a name
abbrev pub base_named : List ℕ → Option BaseName
base_named text = find (λ base. bytes_eq (base_text base) text) all_bases

-- Its words carry the stamps of cells, so its tables list uses.
abbrev pub is_stamped : BaseName → Bool
is_stamped b.DefUse = true
is_stamped b.KSetDefUse = true
is_stamped b.IntervalDefUse = true
is_stamped b.AffineDefUse = true
is_stamped b.BitsDefUse = true
is_stamped b.StridesDefUse = true
is_stamped _ = false
