use Rattle.frame_laws.proofs.Unchanged.{turn_mine, turn_others, step_holders}
use Rattle.frame_laws.proofs.runs.steps_change_owned_frames_alone.Goals as goal

pub returns-clause-mine : goal.returns-clause-mine
returns-clause-mine c = turn_mine

pub returns-clause-others : goal.returns-clause-others
returns-clause-others c = turn_others

pub returns-clause-holders : goal.returns-clause-holders
returns-clause-holders c = λ s t id h at ne away.
    step_holders s t.id t.holding t.step id h at ne away
