use Rattle.jn_place_spans.proofs.Images.{files_stand}
use Rattle.jn_place_spans.proofs.files_stand.Goals as goal

pub returns : goal.returns
returns c = files_stand
