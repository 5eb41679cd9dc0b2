-- A step moves the cells down by one.
use Rattle.register.proofs.lower.lower_cells.Given as goal

abbrev pub ghost-repeated : goal.ghost-repeated
ghost-repeated a = 1
