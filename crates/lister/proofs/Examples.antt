-- The tables of examples of the listing hold of the definitions, by computing.
use Rattle.std.proofs.Common.{refl}
use Rattle.format.specs.Tests.{all_true, all_after}
use Rattle.format.specs.Formats.{in_range}
use Rattle.format.specs.Refusals.{guarded, checked_then}
use Rattle.copying.specs.Copy.{written}
use Rattle.frame.specs.Layout.{flag_of, layout}
use Rattle.frame.specs.Judge.{piece_rule, checks, judge}
use Rattle.stream.specs.Step.{follows, progress_after, followed, stepped, step}
use Rattle.slot.specs.Slots.{same_fields, same_key, place}
use Rattle.slot.specs.Sound.{key_in_range, fits, slot_sound, slots_sound, any, keys_differ, sound}
use Rattle.station.specs.Stations.{area, with_area}
use Rattle.station.specs.Receive.{step_at, deliver, receive}
use Rattle.station.specs.Open.{opening}
use Rattle.trace.specs.Records.{found_by, record_at}
use Rattle.trace.specs.Lines.{digits, decimal, field_text, fields_text, header_line, frame_line, refused_line, stopped_line, count_line}
use Rattle.trace.specs.Bounds.{results, expected}
use Rattle.lister.specs.Listing.{heard, listed_one, listed}
use Rattle.lister.specs.Claims.{program}
use Rattle.lister.specs.Examples.{ListingExamples, ListingBounds}

both : ListingExamples × ListingBounds
unfolding ListingExamples ListingBounds results expected program listed listed_one heard found_by record_at all_true all_after in_range guarded checked_then written flag_of layout piece_rule checks judge follows progress_after followed stepped step same_fields same_key place key_in_range fits slot_sound slots_sound any keys_differ sound area with_area step_at deliver receive opening digits decimal field_text fields_text header_line frame_line refused_line stopped_line count_line
both = (refl, refl)

pub listing_examples : ListingExamples
listing_examples = both.0

pub listing_bounds : ListingBounds
listing_bounds = both.1
