use Rattle.std.proofs.Common.{length}
use Rattle.tests_due.proofs.covers.sound_pieces.+are_in_cells.Given as goal

abbrev pub decreases-are_in_cells : goal.decreases-are_in_cells
decreases-are_in_cells l = length l.pieces.now
