-- The words of code that is made from a number.
use Rattle.std.specs.Prelude.{ℕ, zero, suc, ◌+◌, ◌*◌, ◌/◌, ◌%◌, ◌^◌, ◌==◌, nat_lt, Bool, List, [], ◌∷◌, if◌then◌else◌}
use Rattle.std.specs.Int.{to_be_bytes, w32}
use Rattle.std.specs.List.{flat_map}

-- ---- the generator of numbers: a linear congruential one

-- the state behind a state
abbrev pub next_state : ℕ → ℕ
next_state x = (1664525 * x + 1013904223) % 2 ^ 32

-- the state after so many steps from a number
abbrev pub state_after : ℕ → ℕ → ℕ
state_after number zero = number
state_after number (suc n) = next_state (state_after number n)

-- ---- the instruction that a state chooses

-- the registers that it names, in bits 24, 19 and 14 and the four above each, and a number below 1024, in bit 4 and the nine above
abbrev pub register : ℕ → ℕ → ℕ
register x from = x / 2 ^ from % 32

abbrev pub immediate : ℕ → ℕ
immediate x = x / 16 % 1024

-- the fields D, A and B of a word
abbrev pub field_d : ℕ → ℕ
field_d x = register x 24 * 2097152

abbrev pub field_a : ℕ → ℕ
field_a x = register x 19 * 65536

abbrev pub field_b : ℕ → ℕ
field_b x = register x 14 * 2048

-- Of the eight kinds, each but the last as PowerPC writes it: addi, add, rlwinm, xor, mullw, stw and lwz. The eighth is a conditional branch past the
-- word behind it, where two more words follow, and else the word that does nothing.
abbrev pub word_of_kind : ℕ → Bool → ℕ → ℕ
word_of_kind kind two_follow x =
    if kind == 0 then 939524096 + field_d x + field_a x + immediate x
    else (if kind == 1 then 2080375316 + field_d x + field_a x + field_b x
    else (if kind == 2 then 1409286206 + field_d x + field_a x + field_b x
    else (if kind == 3 then 2080375416 + field_d x + field_a x + field_b x
    else (if kind == 4 then 2080375254 + field_d x + field_a x + field_b x
    else (if kind == 5 then 2415919104 + field_d x + 4 * immediate x
    else (if kind == 6 then 2147483648 + field_d x + 4 * immediate x
    else (if two_follow then 1099038728 else 1610612736)))))))

-- the three highest bits of a state choose the kind
abbrev pub instruction : Bool → ℕ → ℕ
instruction two_follow x = word_of_kind (x / 536870912) two_follow x

-- ---- the words

-- the last word: a return
abbrev pub last_word : ℕ
last_word = 1317011488

-- word i of so many that are made from a number: the instruction of the state after i + 1 steps, or the last word
abbrev pub word_at : ℕ → ℕ → ℕ → ℕ
word_at number count i = if i + 1 == count then last_word else instruction (nat_lt (i + 2) count) (state_after number (i + 1))

-- n of them, from word i on
abbrev pub words_from : ℕ → ℕ → ℕ → ℕ → List ℕ
words_from number count i zero = []
words_from number count i (suc n) = word_at number count i ∷ words_from number count (i + 1) n

-- the words that are made from a number
abbrev pub words : ℕ → ℕ → List ℕ
words number count = words_from number count 0 count

-- their bytes, the most significant of each word first
abbrev pub code_bytes : ℕ → ℕ → List ℕ
code_bytes number count = flat_map (to_be_bytes w32) (words number count)
