use Rattle.msh_write.proofs.MeshBack.{text-reads_back}
use Rattle.msh_write.proofs.laws.text_reads_back.Goals as goal

pub returns : goal.returns
returns c = text-reads_back
