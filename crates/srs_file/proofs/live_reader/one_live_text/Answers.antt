use Rattle.srs_file.proofs.LiveLaws.{live_text_is_one}
use Rattle.srs_file.proofs.live_reader.one_live_text.Goals as goal

pub returns : goal.returns
returns c = live_text_is_one c.one_certificate.ensures.one_value
