-- Word by word.
use Rattle.register.proofs.Moves.{load_words}
use Rattle.register.proofs.load.Goals as goal

pub returns : goal.returns
returns c = load_words _ _ c.load_word.ensures c.load_word-2.ensures c.load_word-3.ensures c.load_word-4.ensures c.load_word-5.ensures c.load_word-6.ensures c.load_word-7.ensures c.load_word-8.ensures
