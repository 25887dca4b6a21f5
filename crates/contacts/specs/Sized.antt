-- Any bytes mean 96 elements and 64 sections, which is the law that a picture owes as a field.
use Rattle.std.specs.Prelude.{◌≡◌, ℕ, List, length, slice_index}
use Rattle.std.proofs.lemmas.List.FromFn.{length-map-range_with_len}
use Rattle.contacts.specs.Bytes.{device_in}
use Rattle.contacts.specs.Picture.{devices_in, sections_in, section_in}

pub length-devices : (bytes : List ℕ) → length (devices_in bytes) ≡ 96
unfolding devices_in
length-devices bytes = length-map-range_with_len (λ e. device_in (slice_index bytes e)) 0 96

pub length-sections : (bytes : List ℕ) → length (sections_in bytes) ≡ 64
unfolding sections_in
length-sections bytes = length-map-range_with_len (section_in bytes) 0 64
