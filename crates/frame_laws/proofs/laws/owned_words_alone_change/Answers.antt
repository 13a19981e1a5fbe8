use Rattle.frame_laws.proofs.KnownWords.{owned_news, entered_else}
use Rattle.frame_laws.proofs.laws.owned_words_alone_change.Goals as goal

pub returns-clause-put : goal.returns-clause-put
returns-clause-put c = λ v f i x g own away. owned_news v f _ _ g own away

pub returns-clause-dressed : goal.returns-clause-dressed
returns-clause-dressed c = λ v f kind g own away. owned_news v f _ _ g own away

pub returns-clause-entered : goal.returns-clause-entered
returns-clause-entered c = entered_else
