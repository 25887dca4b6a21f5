-- What the bytes of a contact picture mean, and what they mean after one of them is written.
use Rattle.std.specs.Prelude.{◌≡◌, ℕ, ◌+◌, ◌/◌, ◌%◌, ◌<◌, ◌≤◌, Bool, ◌≢◌, List, length, take, get_or, set, ◌==◌, slice_index, slice_index_or, slice_set, Option, refl}
use Rattle.std.proofs.Common.{sym, ap, ◌∙◌, inl, inr, arith}
use Rattle.std.proofs.lemmas.List.FromFn.{get_or-map-range_with_len}
use Rattle.std.proofs.lemmas.List.{length-take-le, get_or-take, get_or-set_same, get_or-set_other}
use Rattle.std.proofs.lemmas.Bool.{lt-ltb, le-ltb, eq-eqb, ne_eqb, cond-true, cond-false, cases_eq, cases_lt}
use Rattle.bits.specs.Bits.{bit, with_bit}
use Rattle.bits.proofs.BitsAfter.{bit_after}
use Rattle.layout.specs.declared.position.Position.{Position}
use Rattle.field.specs.declared.device.Device.{Device}
use Rattle.field.specs.Devices.{blank, device_ordered, device_reporting, device_blocking, device_burning}
use Rattle.field.specs.Meaning.{with_device, ordered, told_report, told_block, told_lamp, told_occupation}
use Rattle.contacts.specs.Bytes.{device_in, report_put, block_put, lamp_put, byte_ordered}
use Rattle.contacts.specs.Picture.{byte_of, devices_in, sections_in, section_byte, section_bit, section_in, bytes_mean, with_byte}
use Rattle.contacts.proofs.Decoded.{report_told, order_taken, block_told, lamp_told}
use Rattle.contacts.proofs.Counted.{same_counted, set_counted}

-- the bytes of the elements in front
pub front_length : (bytes : List ℕ) → length bytes ≡ 104 → length (take 96 bytes) ≡ 96
front_length bytes n = length-take-le 96 bytes (omega arith)

pub front_at : (bytes : List ℕ) (e d : ℕ) → e < 96 → get_or (take 96 bytes) e d ≡ get_or bytes e d
front_at bytes e d h = get_or-take 96 bytes e d h

-- a section that there is not has no byte
pub behind_all : (s : ℕ) → 64 ≤ s → 104 ≤ section_byte s
behind_all s h = omega arith

pub device_at : (bytes : List ℕ) (e : ℕ) (d : Device) → e < 96 → slice_index_or (devices_in bytes) e d ≡ device_in (slice_index bytes e)
unfolding devices_in
device_at bytes e d h = get_or-map-range_with_len (λ k. device_in (slice_index bytes k)) 0 96 e e d h (omega arith)

pub section_at : (bytes : List ℕ) (s : ℕ) (d : Bool) → s < 64 → slice_index_or (sections_in bytes) s d ≡ section_in bytes s
unfolding sections_in
section_at bytes s d h = get_or-map-range_with_len (section_in bytes) 0 64 s s d h (omega arith)

-- an element's byte is written: its device changes, and no section
devices_put : (bytes : List ℕ) (e b : ℕ) → length bytes ≡ 104 → e < 96 → devices_in (slice_set bytes e b) ≡ slice_set (devices_in bytes) e (device_in b)
unfolding devices_in
devices_put bytes e b n h =
    let within : e < length bytes = omega arith in
    set_counted (λ k. device_in (slice_index bytes k)) (λ k. device_in (slice_index (slice_set bytes e b) k)) 96 e (device_in b) h
    (ap device_in (get_or-set_same bytes e b 0 within))
    (λ k _ ne. ap device_in (get_or-set_other bytes e k b 0 ne))

sections_kept : (bytes : List ℕ) (e b : ℕ) → e < 96 → sections_in (slice_set bytes e b) ≡ sections_in bytes
unfolding sections_in
sections_kept bytes e b h =
    same_counted (section_in bytes) (section_in (slice_set bytes e b)) 64
    (λ k _.
    let ne : 96 + k / 8 ≢ e = omega arith in
    ap (λ x. bit x (k % 8)) (get_or-set_other bytes e (96 + k / 8) b 0 ne))

-- nothing is written above the elements, and no device changes
element_written :
    (bytes : List ℕ) (e b : ℕ) (change : Device → Device) →
    length bytes ≡ 104 → device_in b ≡ change (device_in (slice_index bytes e)) →
    bytes_mean (with_byte bytes e (λ _. b)) ≡ with_device (bytes_mean bytes) e (change (slice_index_or (devices_in bytes) e blank))
element_written bytes e b change n means = elim (cases_lt e 96) [
  | inl h ↦
      let devices : devices_in (slice_set bytes e b) ≡ slice_set (devices_in bytes) e (change (slice_index_or (devices_in bytes) e blank))
      = devices_put bytes e b n h ∙
      ap (set (devices_in bytes) e) (means ∙ ap change (sym (device_at bytes e blank h))) in
      rw (lt-ltb e 96 h, devices, sections_kept bytes e b h)
  | inr h ↦ rw (le-ltb e 96 h)
]

-- an element's byte is written as an order or a telling writes it
module _ (bytes : List ℕ) (e : ℕ) (sized : length bytes ≡ 104) (fits : slice_index bytes e < 256) where
  pub order_written : (p : Position) → bytes_mean (with_byte bytes e (λ b. byte_ordered b p)) ≡ ordered (bytes_mean bytes) e p
  order_written p = element_written bytes e _ (λ d. device_ordered d p) sized (order_taken (slice_index bytes e) p fits)

  pub report_written : (r : Option Position) → bytes_mean (with_byte bytes e (λ b. report_put b r)) ≡ told_report (bytes_mean bytes) e r
  report_written r = element_written bytes e _ (λ d. device_reporting d r) sized (report_told (slice_index bytes e) r fits)

  pub block_written : (v : Bool) → bytes_mean (with_byte bytes e (λ b. block_put b v)) ≡ told_block (bytes_mean bytes) e v
  block_written v = element_written bytes e _ (λ d. device_blocking d v) sized (block_told (slice_index bytes e) v fits)

  pub lamp_written : (v : Bool) → bytes_mean (with_byte bytes e (λ b. lamp_put b v)) ≡ told_lamp (bytes_mean bytes) e v
  lamp_written v = element_written bytes e _ (λ d. device_burning d v) sized (lamp_told (slice_index bytes e) v fits)

-- a section's byte is written: no device changes
devices_kept : (bytes : List ℕ) (i b : ℕ) → 96 ≤ i → devices_in (slice_set bytes i b) ≡ devices_in bytes
unfolding devices_in
devices_kept bytes i b h =
    same_counted (λ k. device_in (slice_index bytes k)) (λ k. device_in (slice_index (slice_set bytes i b) k)) 96
    (λ k l.
    let ne : k ≢ i = omega arith in
    ap device_in (get_or-set_other bytes i k b 0 ne))

bit_here : (v : Bool) (k b : ℕ) → k < 8 → b < 256 → bit (with_bit b k v) k ≡ v
bit_here v k b low fits = bit_after b k k v fits low ∙ cond-true (k == k) v (bit b k) (eq-eqb k k refl)

bit_there : (v : Bool) (j k b : ℕ) → k < 8 → k ≢ j → b < 256 → bit (with_bit b j v) k ≡ bit b k
bit_there v j k b low apart fits = bit_after b j k v fits low ∙ cond-false (k == j) v (bit b k) (ne_eqb k j apart)

-- and of the sections only the one whose bit is written
sections_put :
    (bytes : List ℕ) (s : ℕ) (v : Bool) →
    length bytes ≡ 104 → s < 64 → slice_index bytes (96 + s / 8) < 256 →
    sections_in (slice_set bytes (96 + s / 8) (with_bit (slice_index bytes (96 + s / 8)) (s % 8) v)) ≡ slice_set (sections_in bytes) s v
unfolding sections_in
sections_put bytes s v n h fits =
    let i = 96 + s / 8 in
    let old = get_or bytes (96 + s / 8) 0 in
    let new = with_bit (slice_index bytes (96 + s / 8)) (s % 8) v in
    let within : i < length bytes = omega arith in
    set_counted (section_in bytes) (section_in (slice_set bytes i new)) 64 s v h
    (ap (λ x. bit x (s % 8)) (get_or-set_same bytes i new 0 within) ∙ bit_here v (s % 8) old (omega arith) fits)
    (λ k l ne. elim (cases_eq (k / 8) (s / 8)) [
      | inl same ↦
          let at : get_or (slice_set bytes i new) (96 + k / 8) 0 ≡ new
          = ap (λ q. slice_index (slice_set bytes i new) (96 + q)) same ∙ get_or-set_same bytes i new 0 within in
          let apart : k % 8 ≢ s % 8 = λ e. ne (omega arith) in
          ap (λ x. bit x (k % 8)) at ∙
          (bit_there v (s % 8) (k % 8) old (omega arith) apart fits ∙
          ap (λ q. bit (slice_index bytes (96 + q)) (k % 8)) (sym same))
      | inr differ ↦
          let apart : 96 + k / 8 ≢ i = λ e. differ (omega arith) in
          ap (λ x. bit x (k % 8)) (get_or-set_other bytes i (96 + k / 8) new 0 apart)
    ])

pub section_written :
    (bytes : List ℕ) (s : ℕ) (v : Bool) →
    length bytes ≡ 104 → s < 64 → slice_index bytes (96 + s / 8) < 256 →
    bytes_mean (slice_set bytes (section_byte s) (with_bit (byte_of bytes (section_byte s)) (section_bit s) v)) ≡ told_occupation (bytes_mean bytes) s v
section_written bytes s v n h fits =
    let new = with_bit (slice_index bytes (96 + s / 8)) (s % 8) v in
    rw (lt-ltb s 64 h, sections_put bytes s v n h fits, devices_kept bytes (96 + s / 8) new (omega arith))
