-- `unfolding compute` opens every definition of this crate that computes, for a proof by computation; propositions stay closed.
-- Assumes nothing.
use Rattle.model.specs.Below.{all, any, count, total, least, passing, listed}
use Rattle.model.specs.Graph.{with_pair, row_length, pair_bit, packed_joined, with_bit, with_row_bit, with_bits, packed_number, packed_rows, degree, before, rank_of, vertex_at, among_vertices, byte_joined}
use Rattle.model.specs.Groups.{within, size_of, clique, outside, isolated_min, outgoing, isolated_avg, isolated_max, isolated, larger, some_set, isolated_clique, some_larger, rival, qualifies}
use Rattle.model.specs.Walk.{only, has, advance, retreat, all_decided, step, after, lasts, found, due, groups_of, records, full_sets, full_list, page}
use Rattle.model.specs.Listing.{adjacent, pivot, apart, left_neighbours, dead, taken_set, taken_list, record_with, record_of}
use Rattle.model.specs.Calls.{refuse, or_else, over, looped, one_way, refuse_graph, refuse_bytes, refuse_table, stray, refuse_packed, refuse_degrees, refuse_settings, refuse_lengths, refuse_input, gap, reopened, refuse_position, refuse_page, reply_of, reply_to, refuse_query, query_reply, answer_to}
use Rattle.model.specs.Text.{lines_of, fields_of, digits, decimal, number_of, fault, p_line, e_line, two, same, p_fields, e_fields, unspaced, line_step, refused_at, read_from, read_text}
use Rattle.model.specs.Edits.{refuse_pair, refuse_edit, moved, recount, edit_reply, edit_to, refuse_list, degrees_reply, degrees_to}
use Rattle.model.specs.Packing.{refuse_pack, pack_reply}
use Rattle.model.specs.Demand.{replies, left_at, joined_output, all_steps, all_groups}
use Rattle.model.specs.Walking.{stretch}
use Rattle.model.specs.Program.{bounded, three, settings_of_words, digits_within, numeral, group_line, group_lines, end_line, refused_line, reading, by_reading, by_words, program_verdict}

unfoldable pub compute : Unit {0}
unfolding all any count total least passing listed among_vertices byte_joined with_pair row_length pair_bit packed_joined with_bit with_row_bit with_bits packed_number packed_rows degree before rank_of vertex_at within size_of clique outside isolated_min outgoing isolated_avg isolated_max isolated larger some_set isolated_clique some_larger rival qualifies only has advance retreat all_decided step after lasts found due groups_of records full_sets full_list page adjacent pivot apart left_neighbours dead taken_set taken_list record_with record_of refuse or_else over looped one_way refuse_graph refuse_bytes refuse_table stray refuse_packed refuse_degrees refuse_settings refuse_lengths refuse_input gap reopened refuse_position refuse_page reply_of reply_to refuse_query query_reply answer_to refuse_pair refuse_edit moved recount edit_reply edit_to refuse_list degrees_reply degrees_to refuse_pack pack_reply lines_of fields_of digits decimal number_of fault p_line e_line two same p_fields e_fields unspaced line_step refused_at read_from read_text replies left_at joined_output all_steps all_groups stretch bounded three settings_of_words digits_within numeral group_line group_lines end_line refused_line reading by_reading by_words program_verdict
compute = tt
