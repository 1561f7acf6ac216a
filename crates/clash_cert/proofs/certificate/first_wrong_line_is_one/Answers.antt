use Rattle.clash_cert.proofs.OneContent.{one_wrong_line}
use Rattle.clash_cert.proofs.certificate.first_wrong_line_is_one.Goals as goal

pub returns : goal.returns
returns c = one_wrong_line
