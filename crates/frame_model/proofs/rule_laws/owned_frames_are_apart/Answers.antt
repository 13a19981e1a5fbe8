use Rattle.frame_model.proofs.rule_laws.owned_frames_are_apart.Goals as goal

pub returns : goal.returns
returns c = λ n m views rule. rule.apart
