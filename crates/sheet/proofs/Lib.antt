mod Apart
mod Fronts
mod Maps
mod OneWay
mod Places
mod Sofar
mod Splits
