-- What a `KeySet` is as plain data.
use Rattle.abstract_map_laws.specs.Keys.{Keys, one, some}
use Rattle.abstract_map.specs.declared.keys.KeySet.{KeySet}
use Rattle.abstract_map.specs.declared.keys.KeySet.TheVariants as set

abbrev pub keys_of : KeySet → Keys
keys_of (set.One k) = one k
keys_of (set.Some listed all_listed) = some listed.items all_listed
