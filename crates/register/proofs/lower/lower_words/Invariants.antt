-- A step moves the cells down by a word.
use Rattle.register.proofs.lower.lower_words.Given as goal

abbrev pub ghost-repeated : goal.ghost-repeated
ghost-repeated a = 8
