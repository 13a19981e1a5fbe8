pub mod OfLayers
pub mod OfRequests
pub mod SoFar
pub mod Standing
