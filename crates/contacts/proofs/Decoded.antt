-- What an element's byte says after an order or a telling wrote some of its bits.
use Rattle.std.proofs.Common.{◌≡◌, ℕ, ◌<◌, Bool, cond, eqb, Some, None, Option, refl, ap, ◌∙◌, lit<}
use Rattle.bits.specs.Bits.{bit, with_bit}
use Rattle.bits.proofs.BitsAfter.{bit_after, with_bit_fits}
use Rattle.layout.specs.declared.position.Position.{Position}
use Rattle.layout.specs.declared.position.Position.TheVariants as position
use Rattle.field.specs.declared.device.Device.{Device}
use Rattle.field.specs.Devices.{device_ordered, device_reporting, device_blocking, device_burning, report_after}
use Rattle.contacts.specs.Bytes.{report_shown, plus_contact, minus_contact, order_code, order_coded, two_bits, report_in, device_in, report_put, block_put, lamp_put, order_put, byte_ordered}

-- the device that six bits say
abbrev said : Bool → Bool → Bool → Bool → Bool → Bool → Device
said plus minus block lamp low high =
    record { report = report_shown plus minus; blocked = block; burning = lamp; order = order_coded (two_bits low high) }

-- a byte whose six bits are known
said_by :
    (n : ℕ) (plus minus block lamp low high : Bool) →
    bit n 0 ≡ plus → bit n 1 ≡ minus → bit n 2 ≡ block → bit n 3 ≡ lamp → bit n 4 ≡ low → bit n 5 ≡ high →
    device_in n ≡ said plus minus block lamp low high
said_by n plus minus block lamp low high e0 e1 e2 e3 e4 e5 = rw (e0, e1, e2, e3, e4, e5)

-- a bit after two are written
bit_after_two :
    (b i k : ℕ) (x y : Bool) → b < 256 → (j : ℕ) → j < 8 →
    bit (with_bit (with_bit b i x) k y) j ≡ cond (eqb j k) y (cond (eqb j i) x (bit b j))
bit_after_two b i k x y fits j low =
    bit_after (with_bit b i x) k j y (with_bit_fits b i x fits) low ∙ ap (cond (eqb j k) y) (bit_after b i j x fits low)

report_shown_by : (r : Option Position) → report_shown (plus_contact r) (minus_contact r) ≡ r
report_shown_by None = refl
report_shown_by (Some position.Plus) = refl
report_shown_by (Some position.Minus) = refl

order_coded_by : (p : Position) → order_coded (two_bits (bit (order_code p) 0) (bit (order_code p) 1)) ≡ Some p
unfolding bit
order_coded_by position.Plus = refl
order_coded_by position.Minus = refl

-- an order is written as the contacts of its position would be
pub order_shown : (b : ℕ) (p : Position) → with_bit (with_bit b 4 (plus_contact (Some p))) 5 (minus_contact (Some p)) ≡ order_put b p
unfolding bit
order_shown b position.Plus = refl
order_shown b position.Minus = refl

pub report_told : (b : ℕ) (r : Option Position) → b < 256 → device_in (report_put b r) ≡ device_reporting (device_in b) r
report_told b r fits =
    let after = bit_after_two b 0 1 (plus_contact r) (minus_contact r) fits in
    said_by _ (plus_contact r) (minus_contact r) (bit b 2) (bit b 3) (bit b 4) (bit b 5)
    (after 0 (lit< tt)) (after 1 (lit< tt)) (after 2 (lit< tt)) (after 3 (lit< tt)) (after 4 (lit< tt)) (after 5 (lit< tt)) ∙
    ap (device_reporting (device_in b)) (report_shown_by r)

order_written :
    (b : ℕ) (p : Position) → b < 256 →
    device_in (order_put b p) ≡ record { report = report_in b; blocked = bit b 2; burning = bit b 3; order = Some p }
order_written b p fits =
    let low = bit (order_code p) 0 in
    let high = bit (order_code p) 1 in
    let after = bit_after_two b 4 5 low high fits in
    said_by _ (bit b 0) (bit b 1) (bit b 2) (bit b 3) low high
    (after 0 (lit< tt)) (after 1 (lit< tt)) (after 2 (lit< tt)) (after 3 (lit< tt)) (after 4 (lit< tt)) (after 5 (lit< tt)) ∙
    ap (λ o. record { report = report_in b; blocked = bit b 2; burning = bit b 3; order = o }) (order_coded_by p)

pub order_taken : (b : ℕ) (p : Position) → b < 256 → device_in (byte_ordered b p) ≡ device_ordered (device_in b) p
order_taken b p fits =
    let left = report_after (report_in b) p in
    let fits_still = with_bit_fits (with_bit b 0 (plus_contact left)) 1 (minus_contact left) (with_bit_fits b 0 (plus_contact left) fits) in
    order_written (report_put b left) p fits_still ∙
    ap (λ (d : Device). record { report = d.report; blocked = d.blocked; burning = d.burning; order = Some p }) (report_told b left fits)

pub block_told : (b : ℕ) (v : Bool) → b < 256 → device_in (block_put b v) ≡ device_blocking (device_in b) v
block_told b v fits =
    let after : (j : ℕ) → j < 8 → bit (with_bit b 2 v) j ≡ cond (eqb j 2) v (bit b j) = λ j low. bit_after b 2 j v fits low in
    said_by _ (bit b 0) (bit b 1) v (bit b 3) (bit b 4) (bit b 5)
    (after 0 (lit< tt)) (after 1 (lit< tt)) (after 2 (lit< tt)) (after 3 (lit< tt)) (after 4 (lit< tt)) (after 5 (lit< tt))

pub lamp_told : (b : ℕ) (v : Bool) → b < 256 → device_in (lamp_put b v) ≡ device_burning (device_in b) v
lamp_told b v fits =
    let after : (j : ℕ) → j < 8 → bit (with_bit b 3 v) j ≡ cond (eqb j 3) v (bit b j) = λ j low. bit_after b 3 j v fits low in
    said_by _ (bit b 0) (bit b 1) (bit b 2) v (bit b 4) (bit b 5)
    (after 0 (lit< tt)) (after 1 (lit< tt)) (after 2 (lit< tt)) (after 3 (lit< tt)) (after 4 (lit< tt)) (after 5 (lit< tt))
