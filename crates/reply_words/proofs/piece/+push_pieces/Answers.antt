use Rattle.std.proofs.Common.{refl}
use Rattle.reply_words.proofs.piece.+push_pieces.Goals as goal

-- no pieces always have room
pub returns-in-empty-clause-room : goal.returns-in-empty-clause-room
returns-in-empty-clause-room t c = λ fits. refl
