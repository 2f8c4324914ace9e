use Rattle.edn_writer.proofs.InProfile.{text_in}
use Rattle.edn_writer.proofs.laws.what_is_read_has_a_text.Goals as goal

pub returns : goal.returns
returns c = text_in
