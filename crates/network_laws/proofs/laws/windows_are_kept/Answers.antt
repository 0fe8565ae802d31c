use Rattle.network_laws.proofs.Hearing.{knows_what_comes}
use Rattle.network_laws.proofs.Windowed.{never_more_than_a_window, sent_in_order, acked_in_all, what_is_sent_is_out}
use Rattle.network_laws.proofs.laws.windows_are_kept.Goals as goal

pub returns : goal.returns
returns c = record { window = never_more_than_a_window; sent = sent_in_order; acked = acked_in_all; heard = knows_what_comes; out = what_is_sent_is_out }
