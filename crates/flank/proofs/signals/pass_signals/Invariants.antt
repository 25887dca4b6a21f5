use Rattle.std.proofs.Common.{◌≡◌, ◌-◌}
use Rattle.flank.specs.Signals.{along}
use Rattle.flank.proofs.signals.pass_signals.Given as goal

abbrev pub invariant-loop : goal.invariant-loop
invariant-loop l = along l.able_too l.elements 192 l.initial.met ≡ along l.able_too l.elements (192 - l.counter) l.met
