use Rattle.frame_model.proofs.rule_laws.views_tell_the_words.Goals as goal

pub returns-clause-kinds : goal.returns-clause-kinds
returns-clause-kinds c = λ n m views rule id v at. (rule.agrees id v at).kind

pub returns-clause-words : goal.returns-clause-words
returns-clause-words c = λ n m views rule id v at. (rule.agrees id v at).word
