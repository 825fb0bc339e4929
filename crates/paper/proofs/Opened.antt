-- One name that opens every definition of `paper`, for theorems that are computed: `unfolding opened`. Assumes nothing.
use native.Mathlib.Decide.{ℕ_discrete}
use Rattle.paper.specs.Lists.{bytes, has, without, keep, eq_l, gather, from, below, every, first_place}
use Rattle.paper.specs.Bytes.{kind_of}
use Rattle.paper.specs.File.{lines, key, value, key_of, listed_from, wrong_letter, broken, read_line, read_lines}
use Rattle.paper.specs.Grammar.{print_s, printed}
use Rattle.paper.specs.Parse.{begin, begin_i, feed, run, build, builds, answer, parse}
use Rattle.paper.specs.Limits.{tokens_from, tokens, over96, deeper, too_deep, nest_s, stars_s, too_starred, unlisted, unused, ninth_from, ninth, bars_s, share, first_bars, shared_module, shared_event, braces_joined}
use Rattle.paper.specs.Term.{term_s, is_yes, eq_t, parts}
use Rattle.paper.specs.Running.{runs, runs_l, heads, armed}
use Rattle.paper.specs.Rewriting.{star_l, hit, rewritten}
use Rattle.paper.specs.Settling.{oldest, settle, settled}
use Rattle.paper.specs.Reaction.{start_of, possible, occurred, moved, order, stays, orders, stopped_after, reaction, walk}
use Rattle.paper.specs.Discovery.{letters, eq_s, has_s, finds, discover, discovered}
use Rattle.paper.specs.Table.{bits, packed_from, packed, entry_bits, head_bits, table_bits, written, number_of, entry_of, table_of}
use Rattle.paper.specs.IsTable.{bits_of, number_from, field, layout, module_count, event_count, state_count, wrong_layout, wrong_count, wrong_length, ascend, wrong_name, wrong_next, zeros, wrong_zeros, wrong_event, wrong_start, wrong_padding, is_table, table_modules, table_events}
use Rattle.paper.specs.Refusals.{program_of, for_edition, within_limits, with_letters, programmed, with_program, reading, any_too_large, discovering}
use Rattle.paper.specs.Calls.{compiled, table_start, index_from, letter_bytes, entered, table_step, live_start, letter_of, reacted, live_step}
use Rattle.paper.specs.Programs.{digits, decimal, hex, ok_text, refused_text, answer_text}

unfoldable pub opened : Unit {0}
unfolding ℕ_discrete bytes has without keep eq_l gather from below every first_place kind_of lines key value key_of listed_from wrong_letter broken read_line read_lines print_s printed begin begin_i feed run build builds answer parse tokens_from tokens over96 deeper too_deep nest_s stars_s too_starred unlisted unused ninth_from ninth bars_s share first_bars shared_module shared_event braces_joined term_s is_yes eq_t parts runs runs_l heads armed star_l hit rewritten oldest settle settled start_of possible occurred moved order stays orders stopped_after reaction walk letters eq_s has_s finds discover discovered bits packed_from packed entry_bits head_bits table_bits written number_of entry_of table_of bits_of number_from field layout module_count event_count state_count wrong_layout wrong_count wrong_length ascend wrong_name wrong_next zeros wrong_zeros wrong_event wrong_start wrong_padding is_table table_modules table_events program_of for_edition within_limits with_letters programmed with_program reading any_too_large discovering compiled table_start index_from letter_bytes entered table_step live_start letter_of reacted live_step digits decimal hex ok_text refused_text answer_text
opened = tt
