-- Values, states and reads with other stamps: f gives the new stamp of an old one.
use Rattle.std.specs.Prelude.{ℕ, map as map_of}
use Rattle.base_trait.specs.Uses.{Read}
use Rattle.base_trait.specs.declared.uses.Stamp.{Stamp}
use Rattle.semantics_values.specs.declared.value.Cell.{Cell}
use Rattle.semantics_values.specs.Values.{Val, Vals, flag, word, made, map, no_val, val_then}
use Rattle.semantics_values.specs.States.{State}
use Rattle.semantics.specs.Runs as r
use Rattle.semantics.specs.Runs.{Stepped}

module _ (f : Stamp → Stamp) where
  abbrev pub restamped_cell : Cell → Cell
  restamped_cell c = record { v = c.v; stamp = f c.stamp }

  -- a cell at its key
  abbrev pub restamped_entry : ℕ × Cell → ℕ × Cell
  restamped_entry e = (e.0, restamped_cell e.1)

  abbrev mutual
    pub restamped : Val → Val
    restamped (flag b) = flag b
    restamped (word w n) = word w n
    restamped (made t c vs) = made t c (all_restamped vs)
    restamped (map m rest cells) = map m (restamped_cell rest) (map_of restamped_entry cells)

    pub all_restamped : Vals → Vals
    all_restamped no_val = no_val
    all_restamped (val_then v vs) = val_then (restamped v) (all_restamped vs)

  abbrev pub restamped_state : State → State
  restamped_state s = record { pc = s.pc; parts = map_of restamped s.parts }

  abbrev pub restamped_read : Read → Read
  restamped_read x = record { of_map = x.of_map; key = x.key; stamp = f x.stamp }

  abbrev pub restamped_step : Stepped → Stepped
  restamped_step (r.steps_to next reads) = r.steps_to (restamped_state next) (map_of restamped_read reads)
  restamped_step r.left = r.left
  restamped_step (r.undecodable code_word) = r.undecodable code_word
  restamped_step r.deep = r.deep
  restamped_step r.wrong = r.wrong
