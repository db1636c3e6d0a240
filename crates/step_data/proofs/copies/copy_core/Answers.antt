use Rattle.std.proofs.Common.{rules, refl}
use Rattle.std.proofs.lemmas.List.Elements.{same_from_all_zip}
use Rattle.step_data.proofs.Tables.{table_same}
use Rattle.step_data.proofs.copies.copy_core.Goals as goal

pub returns : goal.returns
returns c = table_same _ c.args.core.now refl (search (rules, same_from_all_zip)) (search (rules, same_from_all_zip)) (search (rules, same_from_all_zip)) (search (rules, same_from_all_zip))
