-- The memory of a buffer.
use Rattle.std.specs.Prelude.{ℕ, ◌-◌, Vec, vec_len}
use Rattle.std.specs.Vec.{vec_capacity}
use Rattle.std.specs.declared.alloc.Global.{Global}

-- for how many bytes more the memory has room
abbrev pub spare_of : Vec ℕ Global → ℕ
spare_of bytes = vec_capacity bytes - vec_len bytes
