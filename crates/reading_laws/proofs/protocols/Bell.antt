-- Bell's text is accepted, and reads to exactly the cells that the proved table has for Bell.
use mathlib.Core.Path.{◌≡◌, refl}
use native.Mathlib.Decide.{ℕ_discrete}
use mathlib.Core.Bool.{decide}
use Rattle.rule_cases.specs.Cases.{bell}
use Rattle.rules.proofs.Entry.{some?, goes-to?, is-stall?, is-message?, enters?, any-carrier?, is-true?, goes-into?, leads-into?, taken?, enters-taken?, opens-taken?, any-staller?, no-entry?, span}
use Rattle.rules.proofs.Search.{via?, plus?}
use Rattle.text.specs.Parts.{is_same_text, split, lines, first_index, how_many}
use Rattle.text.specs.Name.{name_of_lem, name_rule, is_name_byte, every}
use Rattle.papers.specs.Checks.{first_of}
use Rattle.papers.specs.Opening.{opening_of}
use Rattle.tables.specs.Tables.{cleared_tables, with_message, with_event, with_state, with_cell}
use Rattle.tables.specs.Cells.{cells_of, sent_numbers, transient_of}
use Rattle.tables.specs.Clash.{any_clash_lem}
use Rattle.tables.specs.names.Names.{message_at, event_at_lem, state_at}
use Rattle.lines.specs.Line.{section_of, message_of, event_of, state_of, cell_of, sent_of_lem as sent_of_line}
use Rattle.lines.specs.Checks.{all_messages, in_stable_lem, line_refusal}
use Rattle.protocol.specs.whole.Whole.{no_entry_at, whole_refusal}
use Rattle.protocol.specs.sections.Lines.{read_lines}
use Rattle.protocol.specs.Reading.{read_protocol_lem}
use Rattle.reading_laws.specs.protocols.Bell.{bell_text}

pub bell-accepted : (read_protocol_lem bell_text).refusal.number ≡ 0
unfolding is_same_text split lines first_index how_many name_of_lem name_rule is_name_byte every first_of opening_of cleared_tables with_message with_event with_state with_cell cells_of sent_numbers any_clash_lem message_at event_at_lem state_at section_of message_of event_of state_of cell_of sent_of_line all_messages in_stable_lem line_refusal no_entry_at whole_refusal read_lines read_protocol_lem decide ℕ_discrete some? goes-to? is-stall? is-message? enters? any-carrier? is-true? goes-into? leads-into? taken? enters-taken? opens-taken? any-staller? no-entry? span via? plus? transient_of
bell-accepted = refl

pub bell-cells : cells_of (read_protocol_lem bell_text).tables ≡ bell
unfolding is_same_text split lines first_index how_many name_of_lem name_rule is_name_byte every first_of opening_of cleared_tables with_message with_event with_state with_cell cells_of sent_numbers any_clash_lem message_at event_at_lem state_at section_of message_of event_of state_of cell_of sent_of_line all_messages in_stable_lem line_refusal no_entry_at whole_refusal read_lines read_protocol_lem decide ℕ_discrete some? goes-to? is-stall? is-message? enters? any-carrier? is-true? goes-into? leads-into? taken? enters-taken? opens-taken? any-staller? no-entry? span via? plus? transient_of
bell-cells = refl
