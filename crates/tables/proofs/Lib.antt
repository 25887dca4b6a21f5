-- A table written past its end stays as it is.
pub use Rattle.std.proofs.lemmas.List.{set_past}
