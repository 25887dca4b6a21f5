pub mod BitsAfter
