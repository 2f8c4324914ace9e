use Rattle.edn_writer.proofs.ReadsBack.{canonical_text, canonical_alone}
use Rattle.edn_writer.proofs.laws.canonical_text_reads_back.Goals as goal

pub returns : goal.returns
returns c = record { reads = canonical_text; alone = canonical_alone }
