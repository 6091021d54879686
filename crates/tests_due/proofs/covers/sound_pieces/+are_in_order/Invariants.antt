use Rattle.std.proofs.Common.{length}
use Rattle.tests_due.proofs.covers.sound_pieces.+are_in_order.Given as goal

abbrev pub decreases-are_in_order : goal.decreases-are_in_order
decreases-are_in_order l = length l.pieces.now
