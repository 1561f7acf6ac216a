use Rattle.ical_tree.proofs.ReadsBackLemmas.{reads_back}
use Rattle.ical_tree.proofs.write.write_object.Goals as goal

pub returns-in-Ok-clause-reads_back : goal.returns-in-Ok-clause-reads_back
returns-in-Ok-clause-reads_back c = λ bounded octets reads object. reads_back bounded c.args.component.now octets reads object

pub returns-in-Err-clause-reads_back : goal.returns-in-Err-clause-reads_back
returns-in-Err-clause-reads_back c = λ bounded octets reads object. reads_back bounded c.args.component.now octets reads object
