-- The whole table holds: the definitions give what docs/RULES.md 11 says, case by case. Assumes nothing.
use mathlib.Core.Path.{refl}
use native.Mathlib.Omega.{arith}
use Rattle.cases.proofs.CaseE.{holds_E}
use Rattle.cases.proofs.Rules.{rules}
use Rattle.cases.specs.Cases.{Hold, told, given, head, lists, short, frame, pair, request_a, request_b, request_e, request_short, request_without, table, after_a, after_b, after_leaving, after_out, with_debt, accepted, refused, run_g, cases}

-- All but E are computed; E holds for every T.
pub cases_hold : Hold cases
unfolding rules told given head lists short frame pair request_a request_b request_e request_short request_without table after_a after_b after_leaving after_out with_debt accepted refused run_g cases
cases_hold = (refl, (refl, (refl, (refl, (refl, (refl, (refl, (refl, (refl, (refl, (refl, (refl, (refl, (refl, (refl, (refl, (refl, (refl, (refl, (refl, (refl, (refl, (refl, (refl, (refl, (refl, (refl, (refl, (refl, (refl, (refl, (refl, (refl, (refl, (refl, (refl, (refl, (refl, holds_E 65 (omega arith)))))))))))))))))))))))))))))))))))))))
