use Rattle.command_words.proofs.Readings.{read_is_written, written_is_read}
use Rattle.command_words.proofs.law.reads_what_is_written.Goals as goal

pub returns : goal.returns
returns c = λ words command. (read_is_written words command, written_is_read words command)
