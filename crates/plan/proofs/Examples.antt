-- Document 01's sample, computed. Assumes nothing.
use mathlib.Core.Path.{◌≡◌, refl}
use mathlib.Core.List.{flatten}
use Rattle.eit.specs.Chain.{is_chain}
use Rattle.eit.specs.Crc.{crc32}
use Rattle.eit.specs.Events.{follows}
use Rattle.eit.specs.Pools.{choose}
use Rattle.eit.specs.Records.{records_of}
use Rattle.eit.specs.Sound.{sound, events_of}
use Rattle.script.specs.Form.{form_of}
use Rattle.script.specs.Struck.{unstruck_in}
use Rattle.plan.specs.PlanText.{plan_text}
use Rattle.plan.specs.Sample.{sample_script, sample_text}

pub sample : plan_text sample_script ≡ sample_text
unfolding plan_text form_of unstruck_in sound events_of records_of follows choose is_chain crc32 flatten
sample = refl
