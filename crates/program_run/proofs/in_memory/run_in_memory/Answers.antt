use Rattle.std.proofs.Common.{◌∙◌}
use Rattle.program_run.proofs.Whole.{acceptances, answers, exactly, open_acceptances, open_answers, open_slices, open_tables, slices, summaries, tables, whole}
use Rattle.program_run.proofs.in_memory.run_in_memory.Goals as goal

pub returns-clause-owed : goal.returns-clause-owed
returns-clause-owed c =
    whole _ _ _ _ _ _ _ c.in_ok-inputs.ensures.tells c.in_ok-inputs.ensures.held c.in_ok-inputs.ensures.sure c.in_ok-sink.ensures.tells c.in_ok-sink.ensures.written
    c.run_uncounted.ensures.ends c.run_uncounted.ensures.write_fault (let not = c.in_default.not-NoMemory in λ is. not is)
    _ _ (c.in_ok-to_vec-in_default.ensures.items_if_clones_equal (λ x y same. same) ∙ c.bytes.ensures) c.in_ok-sink.ensures.room

pub returns-clause-exact : goal.returns-clause-exact
returns-clause-exact c status text alone fits =
    exactly _ _ _ _ _ _ _ c.in_ok-inputs.ensures.tells c.in_ok-inputs.ensures.held c.in_ok-inputs.ensures.sure c.in_ok-sink.ensures.tells c.in_ok-sink.ensures.written
    c.run_uncounted.ensures.ends c.run_uncounted.ensures.write_fault (let not = c.in_default.not-NoMemory in λ is. not is)
    _ _ (c.in_ok-to_vec-in_default.ensures.items_if_clones_equal (λ x y same. same) ∙ c.bytes.ensures) c.in_ok-sink.ensures.room status text alone fits

pub returns-clause-table : goal.returns-clause-table
returns-clause-table c request asks closed ok =
    tables _ _ _ _ _ _ _ c.in_ok-inputs.ensures.tells c.in_ok-inputs.ensures.held c.in_ok-inputs.ensures.sure c.in_ok-sink.ensures.tells c.in_ok-sink.ensures.written
    c.run_uncounted.ensures.ends c.run_uncounted.ensures.write_fault (let not = c.in_default.not-NoMemory in λ is. not is)
    _ _ (c.in_ok-to_vec-in_default.ensures.items_if_clones_equal (λ x y same. same) ∙ c.bytes.ensures) c.in_ok-sink.ensures.room request asks closed ok

pub returns-clause-open_table : goal.returns-clause-open_table
returns-clause-open_table c request asks left_open ok =
    open_tables _ _ _ _ _ _ _ c.in_ok-inputs.ensures.tells c.in_ok-inputs.ensures.held c.in_ok-inputs.ensures.sure c.in_ok-sink.ensures.tells c.in_ok-sink.ensures.written
    c.run_uncounted.ensures.ends c.run_uncounted.ensures.write_fault (let not = c.in_default.not-NoMemory in λ is. not is)
    _ _ (c.in_ok-to_vec-in_default.ensures.items_if_clones_equal (λ x y same. same) ∙ c.bytes.ensures) c.in_ok-sink.ensures.room request asks left_open ok

pub returns-clause-accepted : goal.returns-clause-accepted
returns-clause-accepted c request asks closed ok =
    acceptances _ _ _ _ _ _ _ c.in_ok-inputs.ensures.tells c.in_ok-inputs.ensures.held c.in_ok-inputs.ensures.sure c.in_ok-sink.ensures.tells c.in_ok-sink.ensures.written
    c.run_uncounted.ensures.ends c.run_uncounted.ensures.write_fault (let not = c.in_default.not-NoMemory in λ is. not is)
    _ _ (c.in_ok-to_vec-in_default.ensures.items_if_clones_equal (λ x y same. same) ∙ c.bytes.ensures) c.in_ok-sink.ensures.room request asks closed ok

pub returns-clause-accepted_open : goal.returns-clause-accepted_open
returns-clause-accepted_open c request asks left_open ok =
    open_acceptances _ _ _ _ _ _ _ c.in_ok-inputs.ensures.tells c.in_ok-inputs.ensures.held c.in_ok-inputs.ensures.sure c.in_ok-sink.ensures.tells c.in_ok-sink.ensures.written
    c.run_uncounted.ensures.ends c.run_uncounted.ensures.write_fault (let not = c.in_default.not-NoMemory in λ is. not is)
    _ _ (c.in_ok-to_vec-in_default.ensures.items_if_clones_equal (λ x y same. same) ∙ c.bytes.ensures) c.in_ok-sink.ensures.room request asks left_open ok

pub returns-clause-sliced : goal.returns-clause-sliced
returns-clause-sliced c request asks closed ok =
    slices _ _ _ _ _ _ _ c.in_ok-inputs.ensures.tells c.in_ok-inputs.ensures.held c.in_ok-inputs.ensures.sure c.in_ok-sink.ensures.tells c.in_ok-sink.ensures.written
    c.run_uncounted.ensures.ends c.run_uncounted.ensures.write_fault (let not = c.in_default.not-NoMemory in λ is. not is)
    _ _ (c.in_ok-to_vec-in_default.ensures.items_if_clones_equal (λ x y same. same) ∙ c.bytes.ensures) c.in_ok-sink.ensures.room request asks closed ok

pub returns-clause-sliced_open : goal.returns-clause-sliced_open
returns-clause-sliced_open c request asks left_open ok =
    open_slices _ _ _ _ _ _ _ c.in_ok-inputs.ensures.tells c.in_ok-inputs.ensures.held c.in_ok-inputs.ensures.sure c.in_ok-sink.ensures.tells c.in_ok-sink.ensures.written
    c.run_uncounted.ensures.ends c.run_uncounted.ensures.write_fault (let not = c.in_default.not-NoMemory in λ is. not is)
    _ _ (c.in_ok-to_vec-in_default.ensures.items_if_clones_equal (λ x y same. same) ∙ c.bytes.ensures) c.in_ok-sink.ensures.room request asks left_open ok

pub returns-clause-stressed : goal.returns-clause-stressed
returns-clause-stressed c request asks ok =
    summaries _ _ _ _ _ _ _ c.in_ok-inputs.ensures.tells c.in_ok-inputs.ensures.held c.in_ok-inputs.ensures.sure c.in_ok-sink.ensures.tells c.in_ok-sink.ensures.written
    c.run_uncounted.ensures.ends c.run_uncounted.ensures.write_fault (let not = c.in_default.not-NoMemory in λ is. not is)
    _ _ (c.in_ok-to_vec-in_default.ensures.items_if_clones_equal (λ x y same. same) ∙ c.bytes.ensures) c.in_ok-sink.ensures.room request asks ok

pub returns-clause-claimed : goal.returns-clause-claimed
returns-clause-claimed c request asks closed ok =
    answers _ _ _ _ _ _ _ c.in_ok-inputs.ensures.tells c.in_ok-inputs.ensures.held c.in_ok-inputs.ensures.sure c.in_ok-sink.ensures.tells c.in_ok-sink.ensures.written
    c.run_uncounted.ensures.ends c.run_uncounted.ensures.write_fault (let not = c.in_default.not-NoMemory in λ is. not is)
    _ _ (c.in_ok-to_vec-in_default.ensures.items_if_clones_equal (λ x y same. same) ∙ c.bytes.ensures) c.in_ok-sink.ensures.room request asks closed ok

pub returns-clause-claimed_open : goal.returns-clause-claimed_open
returns-clause-claimed_open c request asks left_open ok =
    open_answers _ _ _ _ _ _ _ c.in_ok-inputs.ensures.tells c.in_ok-inputs.ensures.held c.in_ok-inputs.ensures.sure c.in_ok-sink.ensures.tells c.in_ok-sink.ensures.written
    c.run_uncounted.ensures.ends c.run_uncounted.ensures.write_fault (let not = c.in_default.not-NoMemory in λ is. not is)
    _ _ (c.in_ok-to_vec-in_default.ensures.items_if_clones_equal (λ x y same. same) ∙ c.bytes.ensures) c.in_ok-sink.ensures.room request asks left_open ok
