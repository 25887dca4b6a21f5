mod FirstFound
mod StepsExact
mod PlacesExact
pub mod PathsExact
pub mod OverlapsExact
