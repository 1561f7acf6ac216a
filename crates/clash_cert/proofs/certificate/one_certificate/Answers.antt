use Rattle.clash_cert.proofs.OneContent.{one_content, one_text}
use Rattle.clash_cert.proofs.certificate.one_certificate.Goals as goal

pub returns-clause-reading : goal.returns-clause-reading
returns-clause-reading c =
    let law = c.one_stamp.ensures in
    one_content (λ text a b x y. law.reading text a b (law.written text a x) (law.written text b y)) law.form

pub returns-clause-form : goal.returns-clause-form
returns-clause-form c =
    let law = c.one_stamp.ensures in
    one_text (λ text a b x y. law.reading text a b (law.written text a x) (law.written text b y)) law.form
