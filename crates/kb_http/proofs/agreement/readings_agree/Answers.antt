use Rattle.kb_http.proofs.AgreedRoutes.{texts_are_shapes, kinds_are_shapes, places_are_kinds}
use Rattle.kb_http.proofs.agreement.readings_agree.Goals as goal

pub returns : goal.returns
returns c = record { texts = texts_are_shapes; kinds = kinds_are_shapes; places = places_are_kinds }
