-- Every definition that a case computes with: `unfolding rules` opens them all.
use Rattle.change.specs.Change.{number_of, place_of, timetable_of, shortfalls_of, start_plan, starts_of, search_of, answer_of, answer_to, answer, record_of}
use Rattle.change.specs.Queries.{standing, standing_query}
use Rattle.change.specs.Stages.{bound_before, asked_bound, entering, start_entries, weight_sum, overfull, is_behind, behind, stage_sound, stage_area, stage_fields, stage_early, stage_overfull, stage_behind, stages_first, stages_listed, verdict_before}
use Rattle.frames.specs.Program.{is_frame, frame_content, frame_rest, digits, decimal, answered_length, line_of, line, lines_from, program_lines}
use Rattle.numbers.specs.Chain.{or_else, first_of, refused_at}
use Rattle.placement.specs.Placement.{demand_of, comes_before, insert, ordered, is_taken, all_free, last_free, place_from, placement, settle}
use Rattle.records.specs.Answer.{field, rising, answer_record}
use Rattle.records.specs.Request.{number_at, length_at, content_at, is_field, number_field, is_listing, listed_as, listed_field, read_listing, requested, with_listing, read_request}
use Rattle.slots.specs.Below.{every, first, count}
use Rattle.slots.specs.Shortfall.{weight_of, over_slot, keeps, room_of, last_offset_of}
use Rattle.slots.specs.Slots.{is_owner, own, shortfall}
use Rattle.timetable.specs.Sound.{request_in_range, length_in_range, base_as_stated, owners_listed, is_period, is_bound, entry_in_range, entry_absent, entries_in_range, share_none, none_shared, unused_owners_zero, start_in_range, starts_in_range, walk_arrives, is_sound}
use Rattle.timetable.specs.Timetable.{each, cyclic, serves, shortfall_since, shortfall_at, slices_at, transition_shortfall}
use Rattle.transition.specs.Transition.{more_urgent, most_urgent, is_missed, over_all, longer, ended, passed, placed, search_from}

unfoldable pub rules : Unit {0}
unfolding number_of place_of timetable_of shortfalls_of start_plan starts_of search_of answer_of answer_to answer record_of or_else first_of refused_at bound_before asked_bound entering start_entries weight_sum overfull is_behind behind stage_sound stage_area stage_fields stage_early stage_overfull stage_behind stages_first stages_listed verdict_before standing standing_query is_frame frame_content frame_rest digits decimal answered_length line_of line lines_from program_lines demand_of comes_before insert ordered is_taken all_free last_free place_from placement settle field rising answer_record number_at length_at content_at is_field number_field is_listing listed_as listed_field read_listing requested with_listing read_request every first count weight_of over_slot keeps room_of last_offset_of is_owner own shortfall request_in_range length_in_range base_as_stated owners_listed is_period is_bound entry_in_range entry_absent entries_in_range share_none none_shared unused_owners_zero start_in_range starts_in_range walk_arrives is_sound each cyclic serves shortfall_since shortfall_at slices_at transition_shortfall more_urgent most_urgent is_missed over_all longer ended passed placed search_from
rules = tt
